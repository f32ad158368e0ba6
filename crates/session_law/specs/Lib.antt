pub mod Told
pub mod Shape
pub mod Spelled
pub mod Back
pub mod Wired
