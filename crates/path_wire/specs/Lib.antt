pub mod Diagonals
pub mod Wires
pub mod Lays
pub mod Joins
pub mod Parts
