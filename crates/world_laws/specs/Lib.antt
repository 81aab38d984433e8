pub mod InHand
pub mod Runs
