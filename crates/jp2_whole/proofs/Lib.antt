pub mod Tokens
pub mod Laying
