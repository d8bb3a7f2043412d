pub mod Slots
pub mod Scans
