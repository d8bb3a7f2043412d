pub mod Asks
pub mod Records
pub mod Batches
pub mod Runs
