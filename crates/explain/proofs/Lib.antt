pub mod Digits
pub mod Marks
