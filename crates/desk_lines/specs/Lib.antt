pub mod Desk
pub mod Runs
pub mod Demand
