-- Definitions that public clauses cite.
pub mod Answer
pub mod BoundLines
pub mod CommandCodes
pub mod Commands
pub mod OverrunLines
pub mod Rankings
pub mod Refusals
pub mod ScenarioCodes
pub mod Simulations
pub mod SlotLines
pub mod Stops
pub mod Summaries
pub mod TaskLines
