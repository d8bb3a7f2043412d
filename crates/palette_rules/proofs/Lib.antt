pub mod Turns
pub mod Keys
