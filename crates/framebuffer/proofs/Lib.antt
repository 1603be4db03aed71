pub mod SpanLemmas
pub mod PieceLemmas
pub mod MoveLemmas
pub mod RowLemmas
pub mod FrameLemmas
pub mod ScrollLemmas
