pub mod Pauses
pub mod Finishes
