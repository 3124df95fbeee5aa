-- Definitions that public clauses cite.
pub mod Codes
pub mod NamedItems
pub mod Names
pub mod Replays
pub mod Scripts
pub mod StepForms
pub mod Texts
-- What private functions, the inside of types and proofs cite.
pub mod KeptLines
