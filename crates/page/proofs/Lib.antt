pub mod Fills
pub mod Recording
pub mod Turns
pub mod Replacings
pub mod Savings
pub mod Asking
pub mod Openings
