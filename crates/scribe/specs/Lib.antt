pub mod Scribing
pub mod ScribingLemmas
