mod Applied
mod Applying
mod Events
mod Faults
mod Fronts
mod Replays
mod Steps
pub mod FirstRecords
pub mod Language
pub mod OnlyReads
pub mod StillOpen
