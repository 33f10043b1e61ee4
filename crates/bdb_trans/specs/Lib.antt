-- what other public promises and laws are made of
pub mod Bounds
pub mod Orders
pub mod TransLaws
-- words between crates, and for private loops and lemmas
pub mod Names
pub mod Passing
pub mod Steps
pub mod Turns
