pub mod Shallow
pub mod FlowLengths
pub mod FlowFronts
pub mod FlowSteps
pub mod FlowBounds
pub mod FlowJoins
pub mod FlowTurns
pub mod FlowWhole
