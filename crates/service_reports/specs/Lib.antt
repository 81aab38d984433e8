pub mod Changed
pub mod Lines
pub mod Previews
pub mod Programs
pub mod Reports
pub mod HandedOn
