pub mod Besides
pub mod Sayings
