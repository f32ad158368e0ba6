pub mod Tiling
pub mod Cells
pub mod Filling
pub mod Searches
pub mod Scans
pub mod Shelves
pub mod Kept
pub mod Spread
