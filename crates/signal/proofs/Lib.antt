pub mod Greens
pub mod Landing
pub mod Parts
pub mod Turn
