pub mod Asked
pub mod Fields
pub mod Parts
pub mod Urls
pub mod View
