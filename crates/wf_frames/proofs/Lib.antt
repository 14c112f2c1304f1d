mod Environment
pub mod Names
pub mod Owning
pub mod Placing
pub mod Reversed
pub mod Seeing
pub mod Standing
pub mod Storing
pub mod Stores
pub mod Sums
pub mod Called
pub mod Coded
mod Filled
pub mod Advancing
pub mod Asking
pub mod Choices
pub mod Clocked
pub mod Entered
pub mod Evaluated
pub mod Fitting
pub mod Foreseeing
pub mod Given
pub mod Lists
pub mod LoopTurns
pub mod Parts
pub mod Performed
pub mod Shallow
pub mod Assigns
pub mod Looks
pub mod Unseen
mod Counting
mod Beginning
