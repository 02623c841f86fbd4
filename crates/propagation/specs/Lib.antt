pub mod Propagation
pub mod Steps
pub mod Largest
