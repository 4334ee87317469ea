pub mod Faults
pub mod First
pub mod FirstFault
pub mod Looking
pub mod Reading
pub mod Checked
pub mod Right
