pub mod Step
pub mod Given
pub mod Writing
pub mod Apply
