pub mod Counting
pub mod Ready
