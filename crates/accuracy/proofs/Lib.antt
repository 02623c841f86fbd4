pub mod Alone
pub mod Holds
pub mod Near
