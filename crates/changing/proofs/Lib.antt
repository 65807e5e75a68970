pub mod Lending
pub mod Spilling
