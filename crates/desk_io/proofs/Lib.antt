mod Content
mod Pieces
