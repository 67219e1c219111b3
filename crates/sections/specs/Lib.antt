pub mod Lines
pub mod Sections
pub mod Values
