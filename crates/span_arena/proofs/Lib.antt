pub mod ChangeLemmas
pub mod PutLemmas
pub mod CutLemmas
pub mod HeadLemmas
pub mod CallLemmas
pub mod FreeLemmas
pub mod CloneLemmas
