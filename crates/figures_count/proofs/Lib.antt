pub mod Slots
pub mod Backward
pub mod Records
