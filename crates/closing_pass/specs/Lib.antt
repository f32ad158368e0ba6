pub mod OpenCount
pub mod Settled
pub mod Closing
pub mod inner
pub mod Ids
