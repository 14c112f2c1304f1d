pub mod Lives
pub mod Rows
