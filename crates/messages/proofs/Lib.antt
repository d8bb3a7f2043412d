pub mod Wires
pub mod Steps
pub mod Back
pub mod Lending
pub mod Spots
pub mod Parts
pub mod Samples
