pub mod Spotting
pub mod Answering
