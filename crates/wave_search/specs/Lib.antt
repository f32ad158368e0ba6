pub mod Bounds
pub mod Stated
pub mod Around
pub mod Directions
pub mod Cells
pub mod inner
