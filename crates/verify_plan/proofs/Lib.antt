pub mod Prefix
pub mod Plan
