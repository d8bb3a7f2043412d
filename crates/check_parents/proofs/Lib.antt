pub mod Naming
pub mod Summing
