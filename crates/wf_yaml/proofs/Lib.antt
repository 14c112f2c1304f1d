pub mod Ordered
pub mod Entries
pub mod Relation
pub mod Documents
pub mod Weaving
pub mod Steps
pub mod Sources
pub mod Shallow
