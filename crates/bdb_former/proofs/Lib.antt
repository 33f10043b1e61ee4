pub mod SpellLemmas
pub mod TableLemmas
