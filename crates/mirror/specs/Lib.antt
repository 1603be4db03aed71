pub mod Ends
pub mod Inbox
pub mod Sources
pub mod Pictures
pub mod Mirrors
pub mod Programs
