pub mod CopyLemmas
pub mod WalkLemmas
