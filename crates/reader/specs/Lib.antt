pub mod Tallies
pub mod Ways
pub mod Reader
pub mod Said
pub mod Reports
