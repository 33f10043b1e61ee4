pub mod UserLemmas
