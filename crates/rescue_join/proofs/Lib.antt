pub mod Joining
pub mod Rights
