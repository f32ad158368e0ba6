mod Firsts
mod Clashing
mod Listed
