pub mod Messages
pub mod Finding
