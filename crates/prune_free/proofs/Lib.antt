pub mod Freeing
pub mod Kept
