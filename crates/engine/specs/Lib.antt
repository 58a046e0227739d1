pub mod Benches
pub mod Parts
pub mod Seen
