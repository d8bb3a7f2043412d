pub mod Shelf
pub mod Reading
