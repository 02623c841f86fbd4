pub mod Working
pub mod Decided
pub mod Ways
pub mod Sizes
