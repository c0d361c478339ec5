pub mod Firsts
pub mod Numbers
pub mod WeightList
pub mod Validity
pub mod Tallies
pub mod Wishes
pub mod Examples
