-- Definitions that public clauses cite.
pub mod Outcomes
pub mod Processors
pub mod Record
pub mod Services
-- What private functions, the inside of types and proofs cite.
pub mod Choices
pub mod Simulations
