pub mod Cuts
pub mod Headers
pub mod Readings
pub mod Steps
pub mod ReadBack
