pub mod Answers
pub mod Images
pub mod Kept
pub mod Lists
pub mod Overlays
pub mod Sizes
