-- what the headline is made of, in the order of docs/BELIEVE.md
pub mod Limits
pub mod Same
pub mod Timelines
-- what other public promises and laws are made of
pub mod ChangeLaws
pub mod Changes
pub mod Histories
pub mod TimelineLaws
