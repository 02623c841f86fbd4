pub mod Accuracy
pub mod Near
pub mod Alone
