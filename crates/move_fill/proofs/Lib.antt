pub mod Backing
pub mod Overing
