pub mod Dumps
pub mod Ends
pub mod Endings
