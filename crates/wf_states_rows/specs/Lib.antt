pub mod Spelled
pub mod Samples
pub mod Rows
