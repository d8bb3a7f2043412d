pub mod Verify
pub mod Pocket
pub mod Reading
