pub mod Items
pub mod Given
pub mod Offers
pub mod Judging
pub mod Troubles
pub mod inner
