pub mod Bounded
pub mod RowQueries
pub mod ChainQueries
pub mod Afterwards
pub mod ChainRows
