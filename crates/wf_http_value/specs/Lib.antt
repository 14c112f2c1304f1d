pub mod Gives
pub mod Media
