pub mod LineLemmas
pub mod PlaceLemmas
pub mod RangeLemmas
pub mod RowLemmas
pub mod Samples
pub mod UserLemmas
