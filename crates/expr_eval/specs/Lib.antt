-- Definitions that public clauses cite.
pub mod LetOrders
pub mod Values
-- What private functions, the inside of types and proofs cite.
pub mod LetSearch
