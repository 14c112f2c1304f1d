pub mod Pairs
pub mod Flow
pub mod Line
pub mod Views
pub mod FlowWalk
