pub mod Totals
pub mod ClaimMoves
pub mod Counts
pub mod EventLists
pub mod Moves
pub mod Seats
pub mod Ends
