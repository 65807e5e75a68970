pub mod Belonging
pub mod Barred
pub mod Gathered
