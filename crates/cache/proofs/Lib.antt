pub mod Distinct
pub mod Looks
