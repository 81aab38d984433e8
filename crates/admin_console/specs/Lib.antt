pub mod Answers
pub mod Asking
pub mod Fields
pub mod HandedOn
pub mod Previews
pub mod Replies
pub mod Reports
