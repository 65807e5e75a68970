pub mod WrittenNumbers
pub mod WrittenLines
