pub mod SamePlaces
