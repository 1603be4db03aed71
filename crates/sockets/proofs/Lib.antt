pub mod RequestLemmas
pub mod DoorLemmas
pub mod WriteLemmas
