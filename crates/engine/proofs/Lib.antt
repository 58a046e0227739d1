pub mod Sounds
pub mod Ways
