-- words between crates, and for private loops and lemmas
pub mod Counting
pub mod Items
pub mod Structure
pub mod Tree
pub mod Worlds
pub mod Writing
