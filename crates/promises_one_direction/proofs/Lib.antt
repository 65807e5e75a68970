pub mod Signs
pub mod SameSeas
pub mod OneDirection
