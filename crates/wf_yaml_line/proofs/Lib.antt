pub mod Faults
pub mod Ends
pub mod Numbers
pub mod Sets
pub mod Quotes
