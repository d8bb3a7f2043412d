pub mod Puts
pub mod Contracts
pub mod Answers
