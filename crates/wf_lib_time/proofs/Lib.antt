pub mod Dates
pub mod Stamps
pub mod Forms
pub mod Zones
pub mod Ranges
pub mod Reals
