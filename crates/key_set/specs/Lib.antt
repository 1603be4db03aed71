pub mod Among
pub mod AmongLemmas
