pub mod Paths
pub mod Theorems
