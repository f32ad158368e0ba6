pub mod Words
pub mod Session
pub mod inner
