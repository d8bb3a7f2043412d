pub mod Planned
pub mod Answering
