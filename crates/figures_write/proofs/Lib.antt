pub mod Ranges
pub mod Writing
