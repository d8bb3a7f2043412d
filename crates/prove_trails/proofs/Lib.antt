pub mod Trails
pub mod Walking
pub mod Searches
