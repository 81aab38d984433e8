pub mod Endpoints
pub mod Exchanging
pub mod Calls
pub mod Posts
pub mod Replies
