pub mod Sets
pub mod Rules
pub mod Weighing
