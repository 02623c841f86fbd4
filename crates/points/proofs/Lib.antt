pub mod Fitting
pub mod Laws
