pub mod Reports
pub mod Edges
pub mod Machines
pub mod Tables
