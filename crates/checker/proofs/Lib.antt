pub mod First
pub mod Conditions
pub mod Exact
pub mod Ways
pub mod Performed
pub mod Shown
