-- Definitions that public clauses cite.
pub mod Ends
pub mod Instances
pub mod Order
pub mod Queue
pub mod Service
pub mod ServiceOf
-- What private functions, the inside of types and proofs cite.
pub mod Items
