-- Definitions that public clauses cite.
pub mod Books
pub mod NextStep
-- What private functions, the inside of types and proofs cite.
pub mod Releasers
