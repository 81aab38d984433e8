pub mod Drawing
pub mod Scripted
