pub mod Node
pub mod Words
