pub mod Numbers
pub mod Reading
pub mod Spelled
pub mod Misfits
pub mod HandedOn
