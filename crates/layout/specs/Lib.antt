pub mod Sizes
pub mod Headers
pub mod Slots
pub mod Stores
