-- what the headline is made of, in the order of docs/BELIEVE.md
pub mod Codec
pub mod InUse
pub mod Writes
pub mod Marks
pub mod Names
pub mod Rows
pub mod States
pub mod Stored
-- what other public promises and laws are made of
pub mod Differences
-- words between crates, and for private loops and lemmas
pub mod Copies
pub mod Explicit
pub mod Gaps
pub mod Grammar
pub mod GroupMarks
pub mod InUseLaws
pub mod Lengths
pub mod Parts
pub mod Prefixes
pub mod Raw
pub mod Reading
pub mod Spans
