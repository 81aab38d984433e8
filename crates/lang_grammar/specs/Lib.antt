pub mod Grammar
pub mod Printing
