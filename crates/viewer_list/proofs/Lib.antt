mod LagLemmas
mod ListLemmas
