mod Found
mod Fronts
mod Opened
mod Lines
