pub mod Kinds
pub mod Parts
pub mod Said
pub mod Answers
