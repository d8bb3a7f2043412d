pub mod Readable
pub mod Outcomes
pub mod Numbers
pub mod Worth
pub mod Again
pub mod Ledger
pub mod Report
