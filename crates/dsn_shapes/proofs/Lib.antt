pub mod Again
pub mod Within
pub mod Fits
pub mod Few
pub mod First
pub mod Tabled
pub mod Looped
