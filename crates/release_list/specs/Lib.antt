-- Definitions that public clauses cite.
pub mod Releases
pub mod Schedule
