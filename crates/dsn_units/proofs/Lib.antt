pub mod Floors
pub mod Digits
pub mod Powers
pub mod Limits
pub mod Turns
pub mod Spellings
