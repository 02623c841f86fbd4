pub mod Exit
pub mod Run
