mod Stretching
mod Marking
mod Single
pub mod Outgoing
mod Sizing
mod Anchoring
