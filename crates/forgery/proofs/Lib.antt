pub mod Lists
pub mod Search
pub mod Paths
pub mod Truth
pub mod Nodes
pub mod Sizes
pub mod Theorems
pub mod Samples
