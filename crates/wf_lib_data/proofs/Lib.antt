pub mod Places
pub mod Merges
pub mod Giving
pub mod Codes
