pub mod Recounted
pub mod Reading
pub mod Sound
pub mod Theorems
pub mod Desk
