pub mod Notation
pub mod Grammar
pub mod ByGrammar
