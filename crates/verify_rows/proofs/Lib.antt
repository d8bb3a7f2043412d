pub mod Samples
pub mod Rows
pub mod Cutting
pub mod Told
