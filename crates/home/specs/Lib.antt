pub mod Buffer
pub mod FrozenImage
pub mod PairHome
pub mod Pairs
pub mod WordHome
pub mod Words
