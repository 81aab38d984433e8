pub mod Fields
pub mod Numbers
pub mod Peers
pub mod Programs
pub mod Spelled
pub mod Standard
pub mod Worlds
