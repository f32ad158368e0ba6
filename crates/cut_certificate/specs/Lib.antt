pub mod Goals
pub mod Backwards
pub mod Border
pub mod Cuts
pub mod Past
pub mod Same
pub mod inner
