pub mod Listed
pub mod Equal
pub mod Entries
pub mod Digits
pub mod Arguments
pub mod Filled
pub mod Library
pub mod Operands
