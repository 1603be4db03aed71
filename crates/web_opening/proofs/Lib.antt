pub mod HeadLemmas
pub mod TextLemmas
pub mod RequestLemmas
pub mod Examples
