-- what the headline is made of, in the order of docs/BELIEVE.md
pub mod Reading
pub mod Bytes
pub mod Order
pub mod Grammar
pub mod Rows
-- what other public promises and laws are made of
pub mod Laws
