-- Definitions that public clauses cite.
pub mod Events
pub mod Outcomes
pub mod Runs
pub mod State
-- What crates above keep of the protocol, and what proofs cite.
pub mod Budgets
pub mod Pieces
pub mod Recordings
