pub mod Deciding
pub mod Laws
