mod Puts
mod Orders
mod Short
