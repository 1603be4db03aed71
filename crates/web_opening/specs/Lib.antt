pub mod Head
pub mod Text
pub mod Lines
pub mod LetIn
pub mod Request
pub mod Response
