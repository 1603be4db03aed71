pub mod Inboxes
pub mod Sending
pub mod Hearing
pub mod Troubles
