-- What private functions give: a reader of the public contracts needs none of it.
pub mod Steps
pub mod ClosedBoard
pub mod Counting
pub mod Rooms
pub mod Trials
pub mod Tries
pub mod Rounds
