-- what the headline is made of, in the order of docs/BELIEVE.md
pub mod Limits
pub mod TupleFields
pub mod Same
pub mod Order
pub mod SortedSet
pub mod Alternation
pub mod Segments
pub mod Clash
pub mod Worlds
pub mod WorldRows
pub mod States
pub mod Bases
pub mod Conditions
pub mod Changes
pub mod Queries
pub mod Safety
pub mod Texts
pub mod Letters
pub mod Causes
-- what other public promises and laws are made of
pub mod BaseLaws
pub mod Laws
pub mod SetLaws
pub mod UpdateLaws
pub mod UserLaws
-- words between crates, and for private loops and lemmas
pub mod OrderLemmas
pub mod SameLemmas
