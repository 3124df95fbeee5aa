-- Definitions that public clauses cite.
pub mod Bodies
pub mod Faults
pub mod Live
pub mod Scenarios
pub mod SlotsInUse
-- Definitions that only private functions and proofs cite.
pub mod Cells
