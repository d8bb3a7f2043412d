pub mod Rolling
pub mod Blocks
pub mod Digests
