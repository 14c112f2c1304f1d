pub mod Sources
pub mod Programs
pub mod Views
pub mod Laws
pub mod Function
pub mod Rows
