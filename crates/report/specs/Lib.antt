pub mod Judged
pub mod Output
pub mod Plain
