-- what the headline is made of, in the order of docs/BELIEVE.md
pub mod Pieces
-- what other public promises and laws are made of
pub mod Forms
