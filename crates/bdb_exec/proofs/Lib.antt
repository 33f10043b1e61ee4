mod LookLemmas
mod MemoLemmas
mod SpelledLemmas
mod RelLemmas
pub mod TypedLemmas
mod KeyLemmas
mod IndexLemmas
mod PrefixLemmas
mod RunLemmas
pub mod WorldLemmas
pub mod DenyLemmas
mod LookingLemmas
mod LengthLemmas
pub mod ShownLemmas
mod SlotLemmas
mod SeenKeyLemmas
