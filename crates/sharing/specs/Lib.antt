pub mod Table
pub mod Of
pub mod Filling
