-- Definitions that public clauses cite.
pub mod FirstSeats
pub mod OwnSteps
pub mod Plays
pub mod Roles
pub mod Seats
pub mod Showing
-- What private functions, the inside of types and proofs cite.
pub mod FirstWords
