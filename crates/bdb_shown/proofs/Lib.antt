pub mod TextLemmas
pub mod ValueLemmas
pub mod LineLemmas
pub mod OrderLemmas
pub mod ReadLemmas
pub mod WorldLemmas
