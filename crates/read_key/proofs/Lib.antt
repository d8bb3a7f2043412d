pub mod Leaves
pub mod Walking
