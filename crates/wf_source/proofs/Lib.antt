pub mod Json
pub mod Contents
mod Programs
pub mod Sourced
pub mod RowsHold
