pub mod Laws
pub mod Levels
pub mod PieceLemmas
pub mod Loops
