pub mod Marks
pub mod Rows
pub mod Listing
pub mod Checks
pub mod Beyond
