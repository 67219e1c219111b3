pub mod Firsts
pub mod Reasons
pub mod Sizes
