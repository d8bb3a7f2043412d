pub mod Trails
pub mod Searches
