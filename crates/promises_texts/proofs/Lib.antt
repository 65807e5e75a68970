pub mod Start
pub mod Verdicts
pub mod Accepted
pub mod Along
pub mod Arrival
pub mod ChainArrival
pub mod FreeSlot
