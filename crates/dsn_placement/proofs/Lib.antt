pub mod Turned
pub mod Powers
pub mod Each
pub mod Placed
pub mod Fits
pub mod Sound
pub mod Tabled
