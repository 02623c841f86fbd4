pub mod Laws
pub mod Repeating
