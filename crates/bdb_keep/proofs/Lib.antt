pub mod Gets
pub mod MarkedLemmas
pub mod OrderLemmas
pub mod RowsLemmas
pub mod Scans
pub mod SpanLemmas
pub mod TableLemmas
