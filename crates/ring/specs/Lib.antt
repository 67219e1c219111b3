pub mod Circular
pub mod Entries
