pub mod Parts
pub mod Asking
pub mod Drafts
pub mod Rooms
pub mod Services
