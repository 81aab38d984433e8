pub mod Details
pub mod Happenings
