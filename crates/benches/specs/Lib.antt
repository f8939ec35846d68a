pub mod Words
pub mod Benches
pub mod Layout
pub mod Calls
pub mod Demand
