pub mod Benches
pub mod Runs
