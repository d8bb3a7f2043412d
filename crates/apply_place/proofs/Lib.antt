pub mod Changing
pub mod Placing
pub mod Marking
pub mod Keeping
pub mod Reaching
