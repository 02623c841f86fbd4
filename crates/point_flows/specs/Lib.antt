pub mod PointFlows
pub mod PointAccuracy
