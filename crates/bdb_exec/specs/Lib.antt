-- what other public promises and laws are made of
pub mod Seen
pub mod Spelled
-- words between crates, and for private loops and lemmas
pub mod Based
pub mod Coming
pub mod Indexes
pub mod Keys
pub mod LookUps
pub mod Looks
pub mod Memos
pub mod Readable
pub mod Rows
pub mod SeenKeys
