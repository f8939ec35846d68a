pub mod Values
pub mod Finds
pub mod Sounds
pub mod Answers
