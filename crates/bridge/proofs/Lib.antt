pub mod QueueLaws
pub mod Lawful
pub mod Steps
pub mod EdgeKept
pub mod Shown
