pub mod Rounds
pub mod Ending
pub mod SettlingLaws
