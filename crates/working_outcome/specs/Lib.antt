pub mod Answer
pub mod Filled
