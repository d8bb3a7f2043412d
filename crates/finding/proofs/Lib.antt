pub mod Rooted
pub mod Judging
pub mod Answering
