pub mod Changes
pub mod Replies
pub mod Steps
pub mod Tells
