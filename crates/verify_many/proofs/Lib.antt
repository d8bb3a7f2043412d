pub mod Answers
pub mod Writing
pub mod Call
