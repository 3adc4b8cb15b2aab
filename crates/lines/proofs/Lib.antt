pub mod Laws
pub mod Decimal
pub mod Outputs
pub mod Enough
pub mod Determined
pub mod Texts
