pub mod Bits
pub mod Records
pub mod Form
pub mod Fields
pub mod Heads
