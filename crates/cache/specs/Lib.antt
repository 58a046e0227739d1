pub mod Caches
pub mod Places
