pub mod OneDirection
