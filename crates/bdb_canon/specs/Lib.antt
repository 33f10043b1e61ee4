-- what the headline is made of, in the order of docs/BELIEVE.md
pub mod Canonical
pub mod Sizes
-- what other public promises and laws are made of
pub mod CanonLaws
-- words between crates, and for private loops and lemmas
pub mod Samples
