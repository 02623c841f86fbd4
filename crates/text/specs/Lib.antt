pub mod Text
pub mod Digits
pub mod Words
pub mod Columns
