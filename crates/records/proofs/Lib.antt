pub mod Walks
pub mod Cuts
pub mod Judging
pub mod Found
