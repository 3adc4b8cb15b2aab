pub mod Tree
pub mod Format
pub mod Legal
pub mod Value
pub mod Judgement
pub mod Answer
pub mod Work
