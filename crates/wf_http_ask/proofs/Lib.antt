pub mod Depths
pub mod KindsFirst
pub mod Listed
pub mod Texts
