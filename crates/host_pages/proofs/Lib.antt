pub mod OnPages
pub mod Runs
pub mod Sessions
