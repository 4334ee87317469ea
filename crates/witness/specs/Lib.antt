pub mod Rows
pub mod Beside
pub mod Of
pub mod Plans
pub mod Ends
pub mod Answers
