pub mod Reasons
pub mod Masks
pub mod NextLemmas
pub mod ReadingLemmas
pub mod StreamLemmas
pub mod Heads
pub mod WritingLemmas
pub mod SpelledLemmas
