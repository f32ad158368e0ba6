pub mod Flats
pub mod Fits
pub mod Steps
pub mod Injective
pub mod OneAnswer
