pub mod Exact
pub mod Newest
pub mod Preceding
