pub mod Dumped
pub mod Forms
pub mod Law
