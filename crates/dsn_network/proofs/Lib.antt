pub mod Fitting
pub mod Found
pub mod Owning
pub mod Naming
pub mod Noting
pub mod Pairing
pub mod Sound
pub mod Tabled
