pub mod AsTheyStand
