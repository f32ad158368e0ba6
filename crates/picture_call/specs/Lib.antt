pub mod Codes
pub mod Drawing
pub mod Answers
pub mod inner
