pub mod Filled
pub mod Spread
