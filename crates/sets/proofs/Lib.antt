pub mod Members
pub mod Unions
pub mod Sums
pub mod Counts
pub mod Laws
pub mod Grounded
