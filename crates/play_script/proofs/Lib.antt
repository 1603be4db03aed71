pub mod WordLemmas
pub mod ClaimLemmas
pub mod PlayLemmas
