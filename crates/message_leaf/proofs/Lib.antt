pub mod Walking
pub mod Heads
