pub mod Sha256
pub mod Rolling
pub mod Vectors
