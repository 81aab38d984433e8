pub mod Kinds
pub mod Reading
pub mod Sent
pub mod Writing
