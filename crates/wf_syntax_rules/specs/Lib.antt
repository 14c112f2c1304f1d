pub mod Rules
pub mod Faults
pub mod First
pub mod Meaning
pub mod Made
pub mod Built
pub mod Laws
pub mod Rows
