pub mod Marks
pub mod Digits
pub mod Pairs
