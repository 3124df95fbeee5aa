-- Definitions that public clauses cite.
pub mod Bodies
pub mod Finds
pub mod FirstCycles
pub mod Links
pub mod Orders
-- What private functions and proofs cite.
pub mod Distances
pub mod Fronts
