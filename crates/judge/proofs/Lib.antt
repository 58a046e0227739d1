pub mod Discipline
pub mod Examples
pub mod Finding
pub mod Latest
