pub mod Environments
pub mod Packets
pub mod Acting
pub mod Backs
pub mod HandedOn
