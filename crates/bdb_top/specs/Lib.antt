pub use Rattle.bdb_stream.specs.Carried
-- what the headline is made of, in the order of docs/BELIEVE.md
pub mod Words
pub mod Counted
pub mod ByCount
pub mod Ran
pub mod Lines
pub mod Checked
pub mod Generated
pub mod ByCommits
pub mod RanMany
pub mod TellsErrors
-- what other public promises and laws are made of
pub mod Laws
