pub mod BodyStates
pub mod Codes
pub mod Coming
pub mod Fronts
pub mod Lasting
pub mod OneAnswer
pub mod Sizes
pub mod Small
