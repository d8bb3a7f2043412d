pub mod Bits
pub mod Strings
pub mod Places
