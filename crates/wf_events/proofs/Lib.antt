pub mod Arguments
pub mod OfRuns
pub mod Written
pub mod Parts
pub mod Meanings
pub mod Formats
pub mod OnLiterals
