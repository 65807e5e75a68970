pub mod Misfit
