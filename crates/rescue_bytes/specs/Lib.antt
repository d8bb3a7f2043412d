pub mod Rescues
pub mod Numbers
pub mod Claims
