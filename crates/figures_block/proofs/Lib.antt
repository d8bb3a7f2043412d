pub mod Adding
pub mod Splitting
