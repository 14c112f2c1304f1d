pub mod Combined
pub mod Rises
pub mod ValueLaws
pub mod Controls
mod Tasks
mod Beside
pub mod States
pub mod Rows
pub mod Keyed
