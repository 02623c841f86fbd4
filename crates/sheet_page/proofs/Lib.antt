pub mod Lines
pub mod Fits
pub mod Pages
pub mod Told
