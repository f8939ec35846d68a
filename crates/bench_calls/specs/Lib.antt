pub mod Leaving
pub mod Steps
pub mod Saves
pub mod Gap
pub mod Replaces
