pub mod Deciding
pub mod Decided
pub mod Ways
pub mod Working
