pub mod Named
pub mod Counted
pub mod Tallied
pub mod Stretched
pub mod Lasts
pub mod Longest
