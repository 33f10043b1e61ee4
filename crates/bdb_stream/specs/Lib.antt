-- what the headline is made of, in the order of docs/BELIEVE.md
pub mod Handling
pub mod Handled
pub mod Reads
pub mod Commits
pub mod Carried
-- words between crates, and for private loops and lemmas
pub mod Streams
pub mod Told
