pub mod Ages
pub mod Chains
pub mod Ends
pub mod Indexes
pub mod Keys
pub mod Numbers
pub mod Room
