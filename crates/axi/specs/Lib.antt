pub mod First
pub mod Plans
pub mod Bursts
pub mod Verdicts
pub mod Codes
pub mod Checks
