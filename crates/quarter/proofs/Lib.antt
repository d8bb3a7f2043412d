pub mod Slots
pub mod Trees
pub mod Ranges
pub mod Theorems
pub mod Samples
pub mod Small
pub mod Told
