-- Definitions that public clauses cite.
pub mod Commands
pub mod Ends
pub mod Notes
pub mod Outside
pub mod Patterns
pub mod Runs
