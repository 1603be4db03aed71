pub mod Rows
pub mod Steps
pub mod RowLemmas
pub mod StepLemmas
pub mod WalkLemmas
