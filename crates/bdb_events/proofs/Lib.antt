pub mod FormLemmas
pub mod GapLemmas
pub mod ReadLemmas
pub mod WordLemmas
