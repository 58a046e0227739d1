pub mod Fields
pub mod Numbers
pub mod Pieces
pub mod Printing
pub mod Steps
