pub mod Requests
pub mod Told
