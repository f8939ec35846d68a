pub mod Cells
pub mod Rooms
pub mod Contents
pub mod Restores
pub mod Sessions
pub mod Demand
pub mod Cases
