pub mod Scanning
pub mod Roots
