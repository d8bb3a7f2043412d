pub mod ProofBytes
pub mod Steps
