pub mod Quarters
