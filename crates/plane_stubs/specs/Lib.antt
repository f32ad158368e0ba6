pub mod Holding
pub mod inner
