-- what the headline is made of, in the order of docs/BELIEVE.md
pub mod Format
-- words between crates, and for private loops and lemmas
pub mod Catalog
pub mod Listed
pub mod Numbered
pub mod Reading
pub mod Tuples
