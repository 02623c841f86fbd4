pub mod Spreading
pub mod Filling
pub mod Largest
