pub mod Saying
pub mod Forms
pub mod Forking
