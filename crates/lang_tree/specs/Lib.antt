pub mod Depths
pub mod Forms
pub mod HandedOn
pub mod Methods
