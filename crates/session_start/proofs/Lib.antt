pub mod Alike
pub mod Keeping
pub mod Sessions
pub mod Front
