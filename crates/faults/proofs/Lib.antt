pub mod FirstHeld
pub mod OffendingField
