mod Boxes
mod Digits
mod Layers
mod Lines
mod Naming
mod Parts
mod Showing
