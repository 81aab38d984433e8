pub mod Replies
pub mod Receipts
pub mod Closings
pub mod Orders
pub mod Notes
pub mod Doings
pub mod Memos
pub mod HandedOn
