-- what the headline is made of, in the order of docs/BELIEVE.md
pub mod Sessions
pub mod Batches
-- words between crates, and for private loops and lemmas
pub mod Slots
