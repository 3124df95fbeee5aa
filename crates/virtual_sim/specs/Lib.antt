-- Definitions that public clauses cite.
pub mod Outcomes
pub mod Record
-- What private functions, the inside of types and proofs cite.
pub mod Simulations
