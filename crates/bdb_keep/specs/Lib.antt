-- what the headline is made of, in the order of docs/BELIEVE.md
pub mod Tables
pub mod Seen
pub mod Calls
pub mod Marked
pub mod Spans
-- words between crates, and for private loops and lemmas
pub mod Scans
