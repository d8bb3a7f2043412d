pub mod Writing
pub mod Records
