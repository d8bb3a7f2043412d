pub mod Partnering
pub mod Scanning
