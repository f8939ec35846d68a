pub mod Places
pub mod Comparing
pub mod Laws
pub mod Judging
pub mod Cutting
pub mod Cases
