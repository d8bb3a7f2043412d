pub mod Gathered
pub mod Listed
