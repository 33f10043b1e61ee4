-- what the headline is made of, in the order of docs/BELIEVE.md
pub mod Opening
-- what other public promises and laws are made of
pub mod Laws
-- words between crates, and for private loops and lemmas
pub mod Explicit
pub mod ExplicitLaws
pub mod Items
pub mod Judging
pub mod Limits
pub mod Many
pub mod Parts
pub mod SettledRows
pub mod Settles
pub mod Stated
pub mod Statements
pub mod Whole
