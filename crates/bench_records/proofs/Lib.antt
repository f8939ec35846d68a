pub mod Passes
pub mod Places
pub mod Turns
pub mod Fitting
pub mod Judging
pub mod Found
pub mod Ended
