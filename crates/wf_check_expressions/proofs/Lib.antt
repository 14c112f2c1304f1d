mod Calling
pub mod Failing
pub mod Seen
pub mod Fits
pub mod Logged
pub mod Table
