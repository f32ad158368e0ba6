pub mod Listing
pub mod Parting
