mod Missing
mod Tallied
mod Telling
pub mod Serving
pub mod Mapping
pub mod Fitting
pub mod Standing
pub mod Moving
pub mod Adding
pub mod Resting
pub mod Offering
pub mod Anchoring
pub mod Routing
pub mod Planning
pub mod Asking
pub mod Alike
pub mod Searching
pub mod Clearing
pub mod Leading
