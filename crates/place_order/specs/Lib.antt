pub mod Labels
pub mod Rising
pub mod Rooms
pub mod Tags
