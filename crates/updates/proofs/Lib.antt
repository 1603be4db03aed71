mod RemainingLemmas
mod RunLemmas
pub mod SentLemmas
mod SharedLemmas
