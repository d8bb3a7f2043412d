pub mod Parts
pub mod Lists
pub mod Visits
pub mod Walk
pub mod Ends
pub mod Few
pub mod Theorems
pub mod Samples
