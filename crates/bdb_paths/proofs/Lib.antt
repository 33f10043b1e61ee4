pub mod PlaceLemmas
pub mod SharedLemmas
pub mod StateLemmas
pub mod SuffixLemmas
