-- Definitions that public clauses cite.
pub mod Bounds
pub mod Levels
pub mod Periods
pub mod Phases
pub mod Requests
pub mod Responses
