pub mod Unworked
pub mod Decision
pub mod Meaning
