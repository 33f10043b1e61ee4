pub mod ActLemmas
pub mod CountLemmas
pub mod LawLemmas
pub mod TellLemmas
pub mod WriteLemmas
