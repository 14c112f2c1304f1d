pub mod AnswerOf
pub mod Bodies
pub mod Found
pub mod HeadData
pub mod Heads
pub mod Stages
pub mod View
