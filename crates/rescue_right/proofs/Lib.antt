pub mod Righting
