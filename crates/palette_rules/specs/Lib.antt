pub mod Palette
pub mod Claims
