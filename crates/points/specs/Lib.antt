pub mod Points
pub mod Laws
