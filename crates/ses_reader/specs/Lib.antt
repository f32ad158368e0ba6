pub mod Names
pub mod Measures
pub mod Copper
pub mod Session
pub mod Reading
pub mod Sound
pub mod Wiring
