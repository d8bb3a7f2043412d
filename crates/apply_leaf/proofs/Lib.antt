pub mod Asked
pub mod Leaf
