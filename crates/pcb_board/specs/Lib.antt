pub mod Boards
pub mod Answers
pub mod Keeping
pub mod Snaps
pub mod Indexing
pub mod inner
