pub mod Lines
pub mod Status
pub mod Texts
pub mod Commands
pub mod Judging
pub mod Answers
pub mod Due
pub mod inner
