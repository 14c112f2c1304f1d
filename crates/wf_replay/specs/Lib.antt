pub mod Applying
pub mod EngineFaults
pub mod Faults
pub mod Openings
pub mod Promises
pub mod Standing
pub mod TheLanguage
