pub mod Protocol
pub mod Cursors
pub mod Tasks
pub mod Writes
pub mod Reads
pub mod Inputs
pub mod Queues
