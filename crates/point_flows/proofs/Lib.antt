pub mod Holds
pub mod Largest
pub mod Laws
