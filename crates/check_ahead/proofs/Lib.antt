pub mod Messages
pub mod Waiting
