pub mod Proposing
pub mod Giving
