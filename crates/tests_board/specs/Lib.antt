pub mod Laying
pub mod Row
