pub mod FormatLemmas
pub mod ChunkLemmas
pub mod BandLemmas
pub mod GatherLemmas
pub mod PieceLemmas
pub mod ScaleLemmas
