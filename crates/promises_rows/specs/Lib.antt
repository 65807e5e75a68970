pub mod Said
pub mod ByValue
