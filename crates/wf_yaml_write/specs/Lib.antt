pub mod Layout
pub mod Laid
pub mod Back
pub mod Whole
