pub mod Addresses
pub mod Parts
pub mod Lanes
pub mod Worked
