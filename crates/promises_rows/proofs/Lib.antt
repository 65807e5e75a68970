pub mod Among
pub mod Equality
pub mod Arriving
pub mod Members
pub mod Distinct
pub mod Said
pub mod Ordering
pub mod ByValue
