pub mod Claims
pub mod Events
pub mod Lock
pub mod Turns
pub mod Seats
pub mod inner
