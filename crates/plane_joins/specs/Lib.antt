pub mod Planes
pub mod Ribs
pub mod Changed
pub mod Holding
pub mod Reading
pub mod Stubs
pub mod Planned
pub mod inner
