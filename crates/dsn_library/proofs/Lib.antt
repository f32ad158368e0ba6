pub mod Bounded
pub mod Sound
pub mod Tabled
