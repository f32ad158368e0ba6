pub mod Lists
pub mod Once
pub mod Making
pub mod Leading
pub mod Fitting
pub mod New
mod Faults
pub mod Least
pub mod Troubles
mod Parting
mod Tests
