pub mod Fitting
pub mod Lending
