pub mod Wire
pub mod Message
pub mod Parts
pub mod Raws
pub mod Reading
pub mod Lending
pub mod Spots
