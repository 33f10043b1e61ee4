pub mod BatchLemmas
pub mod DeskLemmas
pub mod OneLemmas
pub mod SessionLemmas
