pub mod Places
pub mod Lines
pub mod Kept
pub mod Notes
pub mod Words
pub mod inner
