pub mod CatalogLemmas
pub mod FormatLemmas
pub mod ListedLemmas
pub mod NumberedLemmas
pub mod ReadLemmas
pub mod TupleLemmas
