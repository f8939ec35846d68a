pub mod OnBenches
pub mod Runs
