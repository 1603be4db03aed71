pub mod MakeLemmas
pub mod MergeLemmas
pub mod SameLemmas
