-- words between crates, and for private loops and lemmas
pub mod Failing
