pub mod Ends
pub mod Plans
pub mod Answers
