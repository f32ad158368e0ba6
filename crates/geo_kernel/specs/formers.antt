-- How the list holds its elements.
pub mod list
