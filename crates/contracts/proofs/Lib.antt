pub mod Heading
pub mod Refusing
pub mod Granted
pub mod Reading
pub mod Numbers
pub mod Rooms
