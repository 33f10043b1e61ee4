pub mod AnswerLemmas
pub mod BlockLemmas
pub mod CommitLemmas
pub mod HandledLemmas
pub mod ReadsLemmas
