pub mod Asked
pub mod Lines
pub mod Promised
pub mod Records
pub mod AskErrors
pub mod Inside
