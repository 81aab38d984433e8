pub mod Books
pub mod Resolving
pub mod Ordering
pub mod Answers
pub mod Folding
