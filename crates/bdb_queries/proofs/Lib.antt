pub mod FoundLemmas
pub mod AnswerLemmas
pub mod RangeLemmas
pub mod DomainLemmas
pub mod CollectedLemmas
pub mod HoldingLemmas
pub mod InsertLemmas
pub mod UserLemmas
