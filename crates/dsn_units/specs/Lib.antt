pub mod Length
pub mod Spelling
pub mod Turn
pub mod Halves
pub mod Reading
