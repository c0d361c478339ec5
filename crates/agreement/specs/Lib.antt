pub mod Promise
pub mod Exactness
