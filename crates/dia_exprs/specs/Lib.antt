-- Definitions that public clauses cite.
pub mod Answers
pub mod Counts
pub mod Grammar
pub mod Printable
-- What private functions, the inside of types and proofs cite.
pub mod Parsing
pub mod Reading
