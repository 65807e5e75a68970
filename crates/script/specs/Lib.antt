pub mod Line
pub mod Number
pub mod Place
pub mod Command
pub mod own
