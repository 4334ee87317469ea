pub mod Holding
pub mod Filling
pub mod Gathered
pub mod Bringing
pub mod Spreading
pub mod Size
pub mod Beyond
