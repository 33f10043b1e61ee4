-- what the headline is made of, in the order of docs/BELIEVE.md
pub mod Numbers
pub mod Stops
pub mod Reading
pub mod Fits
-- what other public promises and laws are made of
pub mod Grammar
pub mod Laws
pub mod RoundTrip
-- words between crates, and for private loops and lemmas
pub mod Gives
pub mod Spelled
