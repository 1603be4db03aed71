pub mod Places
pub mod Moves
pub mod Settled
pub mod Shares
pub mod Holding
