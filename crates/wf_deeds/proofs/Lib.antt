mod Answered
mod Quiet
mod Splits
pub mod Lists
mod Carried
mod DeedMore
mod TurnMore
mod Telling
mod Visits
mod Sending
mod Hearing
mod Turned
mod Choosing
mod Ends
mod Moments
mod Handed
mod Computed
mod Complete
mod Histories
mod FirstFormat
pub mod Playing
pub mod HistoryMoments
mod Runs
pub mod Steps
mod TheOutside
mod Taking
mod Waits
