-- what other public promises and laws are made of
pub mod Beliefs
pub mod Changes
pub mod Keys
pub mod Leaving
pub mod Refusals
pub mod Structure
pub mod Undoing
pub mod Worked
