pub mod Words
pub mod Page
pub mod Parts
pub mod Layout
pub mod Calls
pub mod Ledger
pub mod Running
pub mod Demand
