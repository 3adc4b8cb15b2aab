pub mod Run
pub mod Premise
