pub mod Lifetime
