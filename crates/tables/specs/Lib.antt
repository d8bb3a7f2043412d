pub mod Compared
pub mod Tables
pub mod Steps
