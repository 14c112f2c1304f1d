pub mod Reports
pub mod Top
pub mod Calls
pub mod Promises
pub mod Said
