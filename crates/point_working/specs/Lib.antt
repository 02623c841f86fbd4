pub mod PointWorking
pub mod Steps
pub mod None
