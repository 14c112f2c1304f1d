pub mod Naming
pub mod Bodies
pub mod Fields
