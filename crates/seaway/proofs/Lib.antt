pub mod Seas
