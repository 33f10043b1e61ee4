-- what the headline is made of, in the order of docs/BELIEVE.md
pub mod Fitness
pub mod Sources
pub mod PlanOf
pub mod PlanText
-- what other public promises and laws are made of
pub mod Holding
pub mod Listings
pub mod Naming
pub mod PlanLaws
pub mod Running
pub mod Shown
pub mod Sight
