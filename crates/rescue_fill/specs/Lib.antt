pub mod Fill
