pub mod Places
pub mod Slots
pub mod Votes
pub mod Citations
pub mod Locks
pub mod Judged
