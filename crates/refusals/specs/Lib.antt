pub mod Exactly
pub mod Tables
