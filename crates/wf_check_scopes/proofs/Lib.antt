pub mod Reach
pub mod Vacant
pub mod Most
