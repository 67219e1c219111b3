pub mod Printing
pub mod Crossings
pub mod Faults
pub mod Endings
