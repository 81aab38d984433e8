pub mod Console
pub mod Doors
pub mod Hearing
pub mod Said
pub mod Saying
pub mod Sending
