-- what the headline is made of, in the order of docs/BELIEVE.md
pub mod Draws
pub mod Scripts
