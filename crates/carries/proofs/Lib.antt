pub mod ByBoard
pub mod Newest
pub mod Rows
