pub mod Replay
pub mod Printed
pub mod Printings
pub mod Foreseen
pub mod Speakers
pub mod Owned
