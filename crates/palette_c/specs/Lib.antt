pub mod Export
pub mod Within
