pub mod FoundGaps
pub mod FoundWords
pub mod Steps
pub mod Ones
pub mod Every
