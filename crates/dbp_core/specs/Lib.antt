-- Definitions that public clauses cite.
pub mod Cores
pub mod Steppers
-- What private functions, the inside of types and proofs cite.
pub mod Unfinished
