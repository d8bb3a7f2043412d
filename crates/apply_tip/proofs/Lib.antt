pub mod Kept
pub mod Stepping
