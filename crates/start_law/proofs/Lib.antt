mod Copper
mod Back
