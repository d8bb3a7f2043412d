pub mod Fields
pub mod Inners
