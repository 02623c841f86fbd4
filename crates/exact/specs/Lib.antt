pub mod Fraction
pub mod Exact
pub mod Run
pub mod Exit
