pub mod FirstCome
pub mod Runs
