pub mod Leaves
pub mod Nodes
pub mod Tables
pub mod Levels
