pub mod NameLemmas
pub mod NumberLemmas
pub mod PlaceLemmas
pub mod RelationLemmas
pub mod StepLemmas
