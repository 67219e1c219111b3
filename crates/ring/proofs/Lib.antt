pub mod Circular
