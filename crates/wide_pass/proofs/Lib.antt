pub mod Joined
pub mod Fewer
pub mod Ended
pub mod Joining
pub mod Sizing
pub mod Passing
pub mod Rounding
