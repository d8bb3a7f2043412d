pub mod Inserts
pub mod Sides
