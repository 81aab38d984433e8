pub mod Changes
pub mod Registers
pub mod Queues
pub mod Waiting
pub mod Replies
pub mod Overlays
