-- The definitions of an execution that begins.
pub mod Machine
pub mod Laws
