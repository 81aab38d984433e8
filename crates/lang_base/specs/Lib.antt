pub mod Characters
pub mod Equal
pub mod Held
pub mod Memory
pub mod Texts
pub mod Thin
