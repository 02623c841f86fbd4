pub mod Volumes
pub mod Cut
pub mod Unmetered
