pub mod Laws
pub mod Plans
pub mod Demands
pub mod Determined
pub mod Examples
