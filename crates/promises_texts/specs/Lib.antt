pub mod Start
pub mod Accepted
pub mod Along
pub mod Arrival
