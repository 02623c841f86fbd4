pub mod Copied
pub mod Pieces
