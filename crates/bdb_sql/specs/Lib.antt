-- what other public promises and laws are made of
pub mod Content
pub mod Entries
pub mod Filed
pub mod Kept
pub mod Rows
pub mod Stays
pub mod Tied
-- words between crates, and for private loops and lemmas
pub mod Changes
pub mod Heads
pub mod Written
