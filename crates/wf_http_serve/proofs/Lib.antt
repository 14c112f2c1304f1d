pub mod Coming
pub mod Fronts
pub mod Lasting
pub mod OneVisit
pub mod Sizes
pub mod Targets
mod ReadPieces
mod ReadHeads
mod ReadChunkLines
mod ReadBodies
mod ReadVisits
mod SmallVisits
mod AskedStay
