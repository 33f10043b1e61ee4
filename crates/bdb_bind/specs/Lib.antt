-- what the headline is made of, in the order of docs/BELIEVE.md
pub mod Firsts
pub mod Lookup
pub mod Kinds
pub mod Scope
pub mod Parts
pub mod QueryLines
pub mod Lines
pub mod QueryBinding
pub mod Binding
pub mod Safe
pub mod Refusal
-- what other public promises and laws are made of
pub mod Fits
-- words between crates, and for private loops and lemmas
pub mod Indexes
