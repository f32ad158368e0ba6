pub mod Board
pub mod Judged
pub mod inner
