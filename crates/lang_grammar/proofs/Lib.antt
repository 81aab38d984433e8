pub mod Layers
pub mod Printed
