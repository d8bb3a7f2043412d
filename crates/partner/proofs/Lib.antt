pub mod Agreement
pub mod Theorems
pub mod Samples
