pub mod Writing
pub mod Ties
