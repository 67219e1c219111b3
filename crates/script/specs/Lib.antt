pub mod Laws
pub mod Scripts
pub mod Writing
