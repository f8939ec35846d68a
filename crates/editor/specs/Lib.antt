pub mod Marks
pub mod Ledger
pub mod Records
pub mod Editor
pub mod Layout
pub mod Demand
