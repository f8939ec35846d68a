pub mod Turns
pub mod Savings
pub mod Closing
pub mod Recording
pub mod Replacings
pub mod Sharing
pub mod Replaced
