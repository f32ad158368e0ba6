pub mod Marking
pub mod Rows
pub mod Gaining
pub mod Leading
pub mod Flooding
mod Turning
pub mod Backing
mod Beyond
pub mod Each
pub mod Same
pub mod Search
pub mod Blocks
pub mod Shutting
pub mod Closing
pub mod Making
pub mod Checking
