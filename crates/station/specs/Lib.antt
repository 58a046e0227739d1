pub mod Laws
pub mod Tasks
pub mod Verdicts
