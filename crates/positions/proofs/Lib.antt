pub mod Grants
pub mod Sound
