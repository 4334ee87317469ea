pub mod Bit
pub mod Below
pub mod Within
pub mod Member
pub mod Scan
pub mod ByWord
pub mod Holds
pub mod Bytes
pub mod FromFn
pub mod Walk
pub mod Chain
pub mod Gathered
mod Turn
pub mod Packed
pub mod Cell
mod Over
pub mod Blocks
pub mod Transposed
