pub mod Steps
pub mod Lying
pub mod Forms
pub mod Proofs
pub mod Samples
