pub mod Pocket
pub mod Checking
