pub mod Paths
pub mod Checks
