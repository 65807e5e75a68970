pub mod Agree
pub mod Others
