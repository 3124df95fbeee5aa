-- Definitions that public clauses cite.
pub mod Batches
pub mod Counts
pub mod Lines
pub mod Spans
pub mod Texts
pub mod Traces
pub mod WrittenTraces
-- What private functions, the inside of types and proofs cite.
pub mod Guards
pub mod Merging
pub mod Printing
