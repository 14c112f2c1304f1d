pub mod Records
pub mod Runs
pub mod View
pub mod Spelling
pub mod Reading
pub mod Faults
pub mod Laws
pub mod Rows
