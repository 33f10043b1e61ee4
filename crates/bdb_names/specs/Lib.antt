-- words between crates, and for private loops and lemmas
pub mod Drops
pub mod Moves
pub mod Search
pub mod Turned
