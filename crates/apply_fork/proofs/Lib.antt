pub mod Forked
