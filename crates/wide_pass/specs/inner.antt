-- What private functions give: a reader of the public contracts needs none of it.
pub mod Joins
pub mod Sizes
pub mod Passes
