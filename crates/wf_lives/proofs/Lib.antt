mod LivesKept
mod LivesPrinted
mod LivesRuns
pub mod RowsHold
