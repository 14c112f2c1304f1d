mod Pauses
mod Finishes
