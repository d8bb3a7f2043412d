pub mod Staying
pub mod Writing
