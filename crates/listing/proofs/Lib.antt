pub mod Past
pub mod Saying
