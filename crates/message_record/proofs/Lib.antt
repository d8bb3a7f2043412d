pub mod Stepping
pub mod Records
