pub mod ReadSides
