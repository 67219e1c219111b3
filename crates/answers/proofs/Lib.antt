pub mod Totals
pub mod FirstErrors
pub mod ReadWords
