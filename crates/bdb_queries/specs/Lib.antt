-- what other public promises and laws are made of
pub mod QueryLaws
pub mod Slots
-- words between crates, and for private loops and lemmas
pub mod Collected
pub mod Limits
