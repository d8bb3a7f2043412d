pub mod Forms
pub mod Outcomes
pub mod Theorems
pub mod Ledger
