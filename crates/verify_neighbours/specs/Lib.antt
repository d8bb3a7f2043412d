pub mod Neighbours
pub mod Around
