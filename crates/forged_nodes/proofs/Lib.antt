pub mod Noting
pub mod Words
pub mod Scanning
