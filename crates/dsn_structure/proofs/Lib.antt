pub mod Sound
pub mod Tabled
