pub mod Bytes
pub mod Whole
pub mod Leads
pub mod Accepting
pub mod Parsing
pub mod ByGrammar
