pub mod TakeChanges
pub mod Rows
pub mod Hearing
pub mod Posting
pub mod Fetching
