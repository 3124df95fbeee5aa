-- Definitions that public clauses cite.
pub mod Counts
pub mod Parties
pub mod Rows
pub mod SameSeats
pub mod Turns
-- What private functions, the inside of types and proofs cite.
pub mod Booked
pub mod Computed
