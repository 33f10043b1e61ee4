pub mod EdgeLemmas
pub mod LeavingLemmas
pub mod NamingLemmas
pub mod PathLemmas
pub mod ReadsLemmas
pub mod WorldLemmas
