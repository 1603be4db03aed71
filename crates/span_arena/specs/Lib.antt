pub mod Arena
pub mod Links
pub mod DistinctLemmas
pub mod ChainLemmas
pub mod ViewLemmas
pub mod WalkLemmas
