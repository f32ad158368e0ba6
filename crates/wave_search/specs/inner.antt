-- What the private functions give.
pub mod Waiting
pub mod Order
pub mod Ready
pub mod State
pub mod Rows
pub mod Spreads
pub mod Passing
