pub mod Carriers
pub mod Cursors
pub mod Faults
pub mod Lines
pub mod Numbers
pub mod Reading
pub mod Words
