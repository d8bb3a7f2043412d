pub mod Outcomes
pub mod Publishing
