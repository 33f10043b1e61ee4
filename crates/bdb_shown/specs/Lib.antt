-- words between crates, and for private loops and lemmas
pub mod Rows
pub mod Showing
