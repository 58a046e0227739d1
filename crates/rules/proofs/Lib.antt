pub mod AtCell
pub mod Events
pub mod Happens
pub mod Kept
pub mod Logged
pub mod Onward
pub mod Opening
pub mod Together
