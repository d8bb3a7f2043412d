pub mod Moving
pub mod Plain
