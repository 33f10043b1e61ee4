-- what the headline is made of, in the order of docs/BELIEVE.md
pub mod Places
-- what other public promises and laws are made of
pub mod PathLaws
-- words between crates, and for private loops and lemmas
pub mod Shared
