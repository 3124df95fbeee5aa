-- Definitions that public clauses cite.
pub mod Crews
pub mod Draws
pub mod Entries
pub mod Jobs
-- What private functions and proofs cite.
pub mod Concerns
