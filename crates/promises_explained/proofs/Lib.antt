pub mod FirstLines
pub mod Noting
pub mod Recalled
pub mod Telling
pub mod ToldLines
pub mod ExplainsOne
pub mod Explained
