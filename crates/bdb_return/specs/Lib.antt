-- words between crates, and for private loops and lemmas
pub mod Naming
pub mod Numbers
pub mod Places
pub mod Returning
