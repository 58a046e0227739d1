pub mod Fixed
pub mod Heads
pub mod Rounds
