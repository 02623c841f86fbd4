pub mod Cut
pub mod Unmetered
