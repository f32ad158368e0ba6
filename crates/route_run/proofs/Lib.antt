pub mod Rounds
mod Best
mod Counting
mod Worked
mod Passing
mod Running
mod States
