pub mod FileSource
pub mod Untold
pub mod FileHost
pub mod Sockets
