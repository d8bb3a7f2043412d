pub mod Side
