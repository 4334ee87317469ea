pub mod Posed
pub mod Printed
pub mod Events
pub mod Promised
pub mod Left
