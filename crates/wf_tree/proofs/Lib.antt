pub mod PairTrees
pub mod Decimals
pub mod Reading
pub mod Depths
pub mod JsonCases
pub mod Finding
pub mod Leads
