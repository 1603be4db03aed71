pub mod Starts
pub mod Ends
pub mod Early
pub mod Written
pub mod RowsAsPixels
pub mod ColourRuns
pub mod Coded
mod InOrder
