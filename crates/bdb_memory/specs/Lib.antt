-- words between crates, and for private loops and lemmas
pub mod Blocks
pub mod Calm
pub mod Changes
pub mod Entries
pub mod Heads
pub mod Openings
pub mod Places
pub mod RowBytes
pub mod Shelves
pub mod StoreContents
pub mod Struck
pub mod Tails
pub mod Tallies
pub mod Told
pub mod Under
