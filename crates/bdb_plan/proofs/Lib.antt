pub mod RunLemmas
pub mod StandLemmas
mod SetLemmas
mod ListingLemmas
