pub mod Reading
pub mod Parts
