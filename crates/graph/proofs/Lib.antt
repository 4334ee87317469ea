pub mod Rows
pub mod States
pub mod Created
pub mod Sound
