pub mod Passes
pub mod Walks
pub mod Records
