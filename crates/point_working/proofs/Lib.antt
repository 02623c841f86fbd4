pub mod Deciding
pub mod None
pub mod Working
