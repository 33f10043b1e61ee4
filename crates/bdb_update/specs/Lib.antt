-- what the headline is made of, in the order of docs/BELIEVE.md
pub mod Calls
-- what other public promises and laws are made of
pub mod Bounds
pub mod Keeping
pub mod Steps
pub mod StoredLaws
-- words between crates, and for private loops and lemmas
pub mod ChangeLaws
pub mod Clashing
pub mod Differing
pub mod Elsewhere
pub mod Examining
pub mod Filling
pub mod Groups
pub mod Holding
pub mod Joining
pub mod Keys
pub mod Leaving
pub mod Looking
pub mod Numbering
pub mod Parting
pub mod Reached
pub mod Reads
pub mod Replacing
pub mod Tallies
pub mod Trying
pub mod Weighing
