pub mod Reached
pub mod Rounds
pub mod Rows
pub mod Renewed
pub mod Of
