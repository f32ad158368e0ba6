pub mod Below
pub mod Most
pub mod Sound
pub mod Tabled
