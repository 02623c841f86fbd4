pub mod Passing
pub mod Filling
pub mod Discharging
