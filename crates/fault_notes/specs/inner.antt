-- What private functions give: a reader of the public contracts needs none of it.
pub mod Numbers
pub mod Parts
pub mod Looks
