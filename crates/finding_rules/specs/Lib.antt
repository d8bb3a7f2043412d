pub mod Call
pub mod Claims
pub mod Reading
