-- what the headline is made of, in the order of docs/BELIEVE.md
pub mod Bases
pub mod Opening
-- words between crates, and for private loops and lemmas
pub mod Creating
pub mod Place
pub mod Showing
pub mod Taking
