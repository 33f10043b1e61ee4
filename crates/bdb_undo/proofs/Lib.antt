pub mod ChangeLemmas
pub mod HistoryLemmas
pub mod SameLemmas
pub mod StatementLemmas
pub mod TimelineLemmas
