pub mod Found
pub mod Numbered
pub mod Loads
pub mod Questions
pub mod Listing
pub mod Slots
pub mod Highs
