pub mod Hex
pub mod Cuts
pub mod Faults
