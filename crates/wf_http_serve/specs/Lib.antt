pub mod Found
pub mod Plain
pub mod Stages
pub mod Visits
pub mod HeadsRead
pub mod VisitLaws
pub mod Small
