pub mod Inserts
