pub mod Sizes
pub mod Asked
pub mod Batch
pub mod Records
pub mod Runs
