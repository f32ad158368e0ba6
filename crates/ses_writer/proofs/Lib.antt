pub mod Puts
mod Turned
pub mod Listing
mod Printed
