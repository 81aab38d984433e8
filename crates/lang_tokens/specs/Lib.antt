pub mod Lexing
pub mod Spelling
