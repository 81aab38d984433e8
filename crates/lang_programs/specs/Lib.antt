pub mod Numbered
pub mod Printed
pub mod Settings
pub mod Under
pub mod HandedOn
