-- what the headline is made of, in the order of docs/BELIEVE.md
pub mod Grounds
pub mod Certificates
-- what other public promises and laws are made of
pub mod Accepting
pub mod Ends
pub mod Stored
pub mod WhyLaws
-- words between crates, and for private loops and lemmas
pub mod Reading
pub mod Searching
