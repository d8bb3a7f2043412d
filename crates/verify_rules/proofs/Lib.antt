pub mod Told
pub mod Pocket
