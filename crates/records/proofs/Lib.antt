-- What the proofs of several functions use, and what callers in other crates use.
pub mod Laws
pub mod Table
pub mod Judging
pub mod Good
pub mod Founds
pub mod Leaves
pub mod Numbers
pub mod Determined
