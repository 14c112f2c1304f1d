pub mod Names
pub mod Around
