pub mod FromEmpty
pub mod Laws
