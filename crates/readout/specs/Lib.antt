pub mod Told
pub mod Display
