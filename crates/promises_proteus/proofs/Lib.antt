pub mod Proteus
pub mod ProteusText
pub mod ProteusBack
pub mod ProteusAlike
