pub mod CutLemmas
pub mod GapLemmas
pub mod Rows
pub mod TokenLemmas
pub mod SpanLemmas
pub mod SpellingLemmas
