pub mod Repeating
pub mod Powers
pub mod FromEmpty
