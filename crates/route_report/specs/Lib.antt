pub mod Report
pub mod Stretches
pub mod inner
