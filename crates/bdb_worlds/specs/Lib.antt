-- what other public promises and laws are made of
pub mod Bounds
-- words between crates, and for private loops and lemmas
pub mod Dropping
pub mod Finds
pub mod Free
pub mod Growth
pub mod Holding
pub mod Owns
pub mod Reach
pub mod Root
pub mod Shrinking
pub mod Staying
pub mod UserEdges
