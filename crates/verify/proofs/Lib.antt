pub mod Judged
pub mod Checks
