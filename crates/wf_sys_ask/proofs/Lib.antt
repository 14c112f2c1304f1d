mod Answered
mod LogEntries
mod Until
