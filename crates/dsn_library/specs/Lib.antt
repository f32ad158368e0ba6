pub mod Padstacks
pub mod Pins
pub mod Images
pub mod Whole
pub mod Sound
