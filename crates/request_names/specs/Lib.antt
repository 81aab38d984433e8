pub mod Ids
pub mod Names
pub mod Numbers
pub mod Words
