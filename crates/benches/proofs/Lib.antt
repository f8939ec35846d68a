pub mod Words
pub mod Lying
pub mod Runs
pub mod Opens
pub mod Demand
pub mod Refusals
pub mod Example
