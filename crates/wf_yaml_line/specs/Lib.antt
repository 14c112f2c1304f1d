pub mod Marks
pub mod Fault
pub mod FaultLaws
pub mod Words
pub mod Scalars
pub mod Quoted
pub mod Keys
pub mod Views
