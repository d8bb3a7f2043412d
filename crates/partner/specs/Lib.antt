pub mod Verifying
pub mod Ours
