pub mod Stretches
pub mod Sizes
pub mod Marks
pub mod inner
