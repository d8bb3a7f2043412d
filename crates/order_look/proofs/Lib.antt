pub mod Keys
pub mod Numbers
