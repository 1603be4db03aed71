pub mod Grammar
pub mod Reading
pub mod Server
pub mod Steps
pub mod Partial
pub mod Progress
pub mod Examples
pub mod PieceLemmas
