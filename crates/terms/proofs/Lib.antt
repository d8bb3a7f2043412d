pub mod Tests
pub mod Lists
pub mod Places
pub mod Order
pub mod Fields
pub mod Members
