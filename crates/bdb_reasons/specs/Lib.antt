-- what the headline is made of, in the order of docs/BELIEVE.md
pub mod WhyReplies
