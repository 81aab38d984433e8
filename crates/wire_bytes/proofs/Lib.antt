pub mod Alone
pub mod DoorLemmas
pub mod Heads
pub mod HearingLemmas
pub mod Paths
pub mod Sayings
