-- The lemmas of an execution that begins.
pub mod Begun
