pub mod Digits
pub mod Inverse
pub mod Steps
