pub mod Weighing
pub mod Sections
pub mod Plain
pub mod Designs
