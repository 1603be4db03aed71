pub mod Words
pub mod Events
