-- The definitions of the machine.
pub mod Applied
pub mod Causes
pub mod Counts
pub mod Dues
pub mod Entries
pub mod Facts
pub mod Laws
pub mod Lent
pub mod Log
pub mod Main
pub mod Outcome
pub mod Promises
pub mod Ready
pub mod Runs
pub mod Seen
pub mod State
pub mod Names
