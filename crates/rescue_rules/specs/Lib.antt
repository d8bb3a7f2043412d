pub mod Rescue
pub mod Joining
pub mod Entering
