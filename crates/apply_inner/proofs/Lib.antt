pub mod Standing
pub mod Settling
pub mod Inner
pub mod At
