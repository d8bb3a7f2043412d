pub mod Claims
pub mod Gaps
