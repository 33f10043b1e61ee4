-- words between crates, and for private loops and lemmas
pub mod Counts
pub mod GroupChanges
pub mod Groups
pub mod Laws
pub mod Middle
pub mod Numbered
pub mod Others
pub mod Reads
pub mod Rooms
pub mod Settled
pub mod Settling
pub mod Stated
pub mod Steps
pub mod Visits
pub mod Walks
pub mod WorldCopies
pub mod WorldReads
