pub mod Lines
pub mod Plain
pub mod Laws
pub mod Rows
pub mod Help
