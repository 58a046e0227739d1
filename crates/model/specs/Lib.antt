pub mod Answers
pub mod Refusals
pub mod Search
pub mod Steps
