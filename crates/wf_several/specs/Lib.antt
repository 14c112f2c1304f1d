pub mod Several
pub mod Merges
pub mod Here
pub mod Standing
pub mod Branches
