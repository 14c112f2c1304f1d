pub mod Answers
pub mod Asking
pub mod Kinds
pub mod View
