pub mod Paths
pub mod Sets
pub mod Barriers
pub mod Fronts
pub mod Searching
pub mod Of
pub mod Viewed
