pub mod Given
pub mod Numbers
pub mod Parts
pub mod Paths
pub mod Sizes
pub mod Values
pub mod Variables
