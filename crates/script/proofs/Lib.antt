pub mod Back
pub mod Hexes
pub mod Lawful
pub mod Pointing
pub mod Roundtrip
