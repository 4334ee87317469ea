pub mod Table
pub mod Graphs
