pub mod Deciding
pub mod Forms
pub mod Given
pub mod Reading
pub mod Refusals
pub mod Spelled
