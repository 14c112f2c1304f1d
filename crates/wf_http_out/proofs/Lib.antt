pub mod Escaping
pub mod Hosts
pub mod Naming
pub mod Typing
pub mod UrlReading
