pub mod Anchoring
pub mod Places
pub mod Routing
pub mod Offering
