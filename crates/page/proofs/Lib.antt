pub mod Blank
pub mod Laid
