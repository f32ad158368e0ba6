pub mod PinNames
pub mod Stops
