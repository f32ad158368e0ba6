pub mod Leading
pub mod inner
