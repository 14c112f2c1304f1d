pub mod Chunks
pub mod Found
pub mod Framed
pub mod Lengths
pub mod Parts
