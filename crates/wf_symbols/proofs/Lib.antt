pub mod Sets
pub mod Added
pub mod Bodies
pub mod Surrounds
