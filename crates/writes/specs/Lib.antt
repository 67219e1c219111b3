pub mod WriteSides
