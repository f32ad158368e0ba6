pub mod Placed
pub mod Copper
pub mod Places
pub mod Placing
pub mod Sound
