pub mod Kindless
pub mod Senders
pub mod LockValues
pub mod Planning
pub mod Backings
