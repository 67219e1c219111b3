pub mod NextParts
pub mod NextBeats
pub mod Waiting
