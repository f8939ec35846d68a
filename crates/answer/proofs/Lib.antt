pub mod Once
pub mod Put
pub mod Laid
pub mod Below
pub mod Ahead
pub mod Cases
