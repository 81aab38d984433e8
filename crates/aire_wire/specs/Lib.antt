pub mod Incoming
pub mod Known
pub mod ReadBack
pub mod Written
