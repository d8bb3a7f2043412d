pub mod BigEndian
pub mod Hash
