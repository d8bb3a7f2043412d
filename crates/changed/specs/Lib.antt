pub mod Changes
pub mod Visits
pub mod Compare
pub mod Walk
pub mod Claims
