pub mod Records
pub mod Figures
