pub mod Sets
pub mod Rows
pub mod Blocks
pub mod Members
