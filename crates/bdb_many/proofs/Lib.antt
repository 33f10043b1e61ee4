pub mod ManyLemmas
pub mod LabelLemmas
