pub mod Expressions
pub mod Forms
pub mod Tests
