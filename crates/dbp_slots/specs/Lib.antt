-- Definitions that public clauses cite.
pub mod FreeSlot
pub mod Layout
pub mod Slots
pub mod TableWords
-- What private functions, the inside of types and proofs cite.
pub mod LayoutBlocks
pub mod Marks
