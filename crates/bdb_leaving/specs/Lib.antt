-- what the headline is made of, in the order of docs/BELIEVE.md
pub mod Leaving
-- words between crates, and for private loops and lemmas
pub mod Naming
pub mod Paths
