pub mod Flat
pub mod Verdict
pub mod Trees
pub mod Groups
pub mod Heads
