-- what the headline is made of, in the order of docs/BELIEVE.md
pub mod Cut
pub mod Tokens
pub mod Reading
-- what other public promises and laws are made of
pub mod CutLaws
pub mod Spans
pub mod TokenGrammar
-- words between crates, and for private loops and lemmas
pub mod Runs
