-- words between crates, and for private loops and lemmas
pub mod Laws
pub mod Leading
pub mod Naming
pub mod States
pub mod Turning
pub mod Ups
