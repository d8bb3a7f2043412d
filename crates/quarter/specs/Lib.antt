pub mod Figures
pub mod Living
