-- what the headline is made of, in the order of docs/BELIEVE.md
pub mod Due
pub mod Asked
pub mod Carried
pub mod Counted
pub mod TellsErrors
-- what other public promises and laws are made of
pub mod Laws
-- words between crates, and for private loops and lemmas
pub mod Streams
