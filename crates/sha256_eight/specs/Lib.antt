pub mod Each
pub mod Lanes
