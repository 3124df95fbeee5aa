-- Definitions that public clauses cite.
pub mod Answers
pub mod Canonical
pub mod Documents
pub mod Printable
-- What private functions, the inside of types and proofs cite.
pub mod Drafts
pub mod Refusals
