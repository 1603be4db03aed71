mod GoesOn
pub mod PaintedLemmas
pub mod EventLemmas
pub mod TakeLemmas
pub mod RowsLemmas
