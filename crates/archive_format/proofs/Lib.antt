pub mod Adding
pub mod Decoded
pub mod Encoded
pub mod Finding
pub mod Joined
pub mod Records
pub mod Sizes
