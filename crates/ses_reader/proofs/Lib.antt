pub mod Fractions
pub mod Naming
pub mod OneSession
pub mod Sound
pub mod FreeWires
