pub mod Children
pub mod Sides
