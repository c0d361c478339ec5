pub mod Rolls
pub mod Summaries
pub mod Texts
