-- what the headline is made of, in the order of docs/BELIEVE.md
pub mod Failure
pub mod Pieces
-- words between crates, and for private loops and lemmas
pub mod Streams
