pub mod NextOpen
pub mod Numbers
pub mod View
