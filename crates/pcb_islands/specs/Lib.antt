pub mod Islands
pub mod inner
