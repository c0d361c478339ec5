pub mod Opened
pub mod Refused
pub mod Delivered
pub mod Readied
pub mod Given
pub mod Settled
pub mod Rounds
pub mod Untouched
