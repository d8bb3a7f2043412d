pub mod Placing
pub mod Reach
