pub mod Ways
pub mod Positions
