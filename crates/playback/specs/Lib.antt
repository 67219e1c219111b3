pub mod Entries
pub mod Laws
pub mod Runs
pub mod Transcripts
