-- what the headline is made of, in the order of docs/BELIEVE.md
pub mod Keywords
-- what other public promises and laws are made of
pub mod Filled
pub mod Printable
pub mod Printed
