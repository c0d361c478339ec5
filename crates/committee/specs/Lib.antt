pub mod Committees
pub mod Readiness
pub mod Reasons
pub mod Sweeping
