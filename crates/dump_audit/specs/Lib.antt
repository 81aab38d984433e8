pub mod Groups
pub mod Histories
pub mod Judging
