pub mod Shown
pub mod Single
pub mod Forged
pub mod Published
