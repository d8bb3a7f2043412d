pub mod Hashes
pub mod Theorems
pub mod Told
