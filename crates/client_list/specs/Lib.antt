pub mod Connected
pub mod Lending
pub mod Links
pub mod DistinctLemmas
pub mod IndexLemmas
pub mod WalkLemmas
pub mod CallerLemmas
