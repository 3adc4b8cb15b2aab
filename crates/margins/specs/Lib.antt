pub mod Margins
pub mod Steps
