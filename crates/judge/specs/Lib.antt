pub mod Discipline
pub mod Examples
pub mod Hearing
pub mod Judging
pub mod Settling
