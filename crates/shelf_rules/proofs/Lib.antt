pub mod Records
pub mod Theorems
pub mod Told
