pub mod Growing
pub mod Sessions
pub mod Later
