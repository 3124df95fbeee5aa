-- Definitions that public clauses cite.
pub mod Bodies
pub mod Expressions
pub mod Listed
pub mod Texts
