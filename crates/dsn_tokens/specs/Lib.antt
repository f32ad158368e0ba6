pub mod Place
pub mod Gaps
pub mod Words
pub mod Spelling
pub mod Scanning
