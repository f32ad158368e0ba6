-- What private functions give: a reader of the public contracts needs none of it.
pub mod Landings
pub mod Sites
pub mod Holding
pub mod Adding
