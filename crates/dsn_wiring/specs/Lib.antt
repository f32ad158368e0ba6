pub mod Layers
pub mod Nets
pub mod Wires
pub mod Vias
pub mod Counts
pub mod Whole
pub mod Sound
