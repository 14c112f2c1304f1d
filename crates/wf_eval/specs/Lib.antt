pub mod Sight
pub mod Answers
pub mod Steps
