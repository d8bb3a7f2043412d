pub mod Partner
