pub mod Spoilt
pub mod Walking
pub mod Descending
pub mod Theorems
pub mod Positions
