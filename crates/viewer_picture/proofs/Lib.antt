pub mod Read
mod Legal
mod Taken
mod OnceCopied
