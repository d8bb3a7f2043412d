pub mod Paths
pub mod Neighbours
