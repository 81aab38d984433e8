pub mod Characters
pub mod EscapeLemmas
pub mod PrintedBodies
